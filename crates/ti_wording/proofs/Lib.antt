mod TokenBytes
