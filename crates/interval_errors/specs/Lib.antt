pub mod ErrorText
