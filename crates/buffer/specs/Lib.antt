-- What the contracts of writers cite, and the laws that their callers use.
pub mod Put
