-- The neighbours of a time as extremes: found in any order of the times. Assumes nothing.
use Rattle.std.specs.Prelude.{List, T, Float}
use Rattle.std.proofs.Math.Option.{none}
use Rattle.std.specs.Float.Ieee.{lt, le, eq}
use Rattle.definitions.specs.Lists.{any}
use Rattle.laws.specs.list.Every.{Every}
use Rattle.laws.specs.list.Places.{Fits}

-- l is one of the times, at most t, and none that is at most t is above it
pub record IsLower (times : List Float) (t l : Float) : Type 0 where
  pub fits : Fits l
  pub listed : T (any (λ (x : Float). eq x l) times)
  pub upto : T (le l t)
  pub last : Every (λ (x : Float). T (le x t) → T (le x l)) times

-- h is one of the times, above t, and none that is above t is below it
pub record IsUpper (times : List Float) (t h : Float) : Type 0 where
  pub fits : Fits h
  pub listed : T (any (λ (x : Float). eq x h) times)
  pub above : T (lt t h)
  pub first : Every (λ (x : Float). T (lt t x) → T (le h x)) times
