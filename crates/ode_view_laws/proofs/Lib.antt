pub mod ActLaws
pub mod BegunLaws
pub mod DrawnLaws
pub mod OrderLaws
pub mod PutLaws
pub mod ShowLaws
pub mod ViewLaws
