-- What the calls of the C interface return and leave in the buffers lent to them: by the meanings of the answers, and computed.
pub mod Told
pub mod Exported
pub mod ExportComputed
