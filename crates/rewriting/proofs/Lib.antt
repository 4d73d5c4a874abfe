pub mod KnownInput
