mod Counted
mod OneClass
