pub mod NanWritten
