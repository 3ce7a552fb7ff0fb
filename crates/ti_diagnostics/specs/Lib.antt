pub mod Rejections
