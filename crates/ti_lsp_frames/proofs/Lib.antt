mod Headers
mod Lines
mod Names
mod Scanning
mod Whole
