-- Theorems: the stages of the making, the numbers of a line, what lines say, the making line by line, the sheet that is made, and its one answer.
pub mod Stages
pub mod Taking
pub mod Sentences
pub mod Progress
pub mod Sheets
pub mod Once
