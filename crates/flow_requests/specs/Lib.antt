pub mod SecondFile
