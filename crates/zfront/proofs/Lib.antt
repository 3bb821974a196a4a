mod Results
mod Frames
mod Asked
mod Seating
mod Flat
mod Rising
