mod Refusing
mod Served
mod Bodies
mod Decoding
mod Complete
mod Again
