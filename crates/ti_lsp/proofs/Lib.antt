mod Documents
mod Edited
mod Fixes
mod Items
mod Offsets
mod Shown
mod Units
