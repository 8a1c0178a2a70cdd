-- What a line that cannot be read, or that only asks, leaves as it was. Assumes nothing.
use Rattle.std.specs.Prelude.{◌≡◌}
use Rattle.resolver.specs.State.{Made}
use Rattle.cases.specs.declared.Session.{Session}

-- nothing but output: the samples that were lent stay lent, and what stood still stands
pub record Stays (s r : Session) : Type 0 where
  pub same-lent : r.lent ≡ s.lent
  pub same-resolver : r.resolver ≡ s.resolver
  pub made : Made r.resolver
