-- Laws that the proofs of its functions cite.
mod Ready
mod Caching
mod LevelLaws
mod WalkLaws
mod StartLaws
mod EndLaws
mod Filling
