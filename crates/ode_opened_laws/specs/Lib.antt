pub mod WorldBases
