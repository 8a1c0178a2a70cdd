-- What a question rests on, and one law for each return of it.
mod Asked
mod AskedTracks
mod AskedAnswers
