pub mod FilesInLines
