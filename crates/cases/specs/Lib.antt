-- The starred cases: `Table` is the table, `Rows` says what its rows hold. `Sheets` has the document's sheets, with what holds of them.
pub mod Rows
pub mod Table
pub mod Sheets
