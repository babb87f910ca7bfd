mod TableLaws
mod WaitLaws
mod OverLaws
