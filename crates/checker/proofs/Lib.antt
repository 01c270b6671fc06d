-- What a loop of reads or of writes has moved so far.
mod Moved
