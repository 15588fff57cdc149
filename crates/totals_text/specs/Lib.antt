-- The definitions that the contracts cite: the text of a bench report, and the promises.
pub mod Texts
pub mod Promise
