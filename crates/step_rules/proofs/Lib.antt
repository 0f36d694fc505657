pub mod StepKinds
