-- A double's size as an exact fraction of a power of two. Assumes nothing.
use Rattle.std.specs.Prelude.{◌*◌, ◌^◌, ◌≤◌, ◌<◌, ◌≡◌, Float}
use Rattle.std.specs.Float.Ieee.Positive.{num, den}
use Rattle.gf.specs.Doubles.{sign_bit}
use Rattle.names.specs.declared.magnitude.Magnitude.{Magnitude}

-- `num` / `den` is the size of the double: it equals digits / 2 ^ shift
pub record Measures (x : Float) (m : Magnitude) : Type 0 where
  pub sign : m.negative ≡ sign_bit x
  pub few : m.digits < 2 ^ 53
  pub shifted : 12 ≤ m.shift
  pub size : num x * 2 ^ m.shift ≡ m.digits * den x
