-- Models of how the code finds an error. They aren't part of what has to be believed: which error is reported is defined by `Refusals`
-- and `ProgramRefusals`, and the theorems `first_counts` and `one_program_refusal` say that the one found is that one. `Literals` states,
-- for a program as a tree, what the integer types of the code guarantee.
pub mod First
pub mod Literals
pub mod LiteralFacts
pub mod ProgramRefusal
