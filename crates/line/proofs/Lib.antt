mod Filling
mod Calling
