pub mod Stems
