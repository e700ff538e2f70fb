pub mod Endings
pub mod Faults
pub mod Taking
pub mod Whole
pub mod LineEnds
pub mod Lengths
pub mod OneStream
pub mod RecordCuts
