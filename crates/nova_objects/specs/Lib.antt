pub mod ObjectTables
