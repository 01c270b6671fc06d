-- What `fill` is given and makes.
pub mod Filling
-- What the private functions do.
pub mod Parts
pub mod Sides
pub mod Blocks
pub mod Building
pub mod Turns
