pub mod Words
pub mod Line
pub mod Form
pub mod App
pub mod Table
