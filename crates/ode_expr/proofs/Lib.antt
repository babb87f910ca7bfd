pub mod EvaluationLaws
