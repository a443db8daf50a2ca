pub mod InputText
