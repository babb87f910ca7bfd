mod Creates
mod Fronts
mod Levels
mod Locals
mod Rounds
mod Stays
mod Touches
mod Values
