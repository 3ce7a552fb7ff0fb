mod Fieldless
