pub mod NoteLines
