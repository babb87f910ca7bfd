mod Current
mod Removal
mod Growth
