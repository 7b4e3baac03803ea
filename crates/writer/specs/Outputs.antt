-- Writing parts to lent bytes, one behind the other. Assumes nothing.
--     written o           what is written to the output o
--     rest o              the bytes behind it, as they were lent
--     Wrote o p q         writing p to the output o turns it into q
use Rattle.std.specs.Prelude.{◌≡◌, ℕ, List, ◌++◌, length, take, drop}
use Rattle.writer.specs.declared.output.Output.{Output}

abbrev pub written : Output → List ℕ
written o = take o.at o.bytes.now

abbrev pub rest : Output → List ℕ
rest o = drop o.at o.bytes.now

pub record Wrote (o : Output) (p : List ℕ) (q : Output) : Type 0 where
  pub same : q.bytes.ghost_name ≡ o.bytes.ghost_name
  pub front : written q ≡ written o ++ p
  pub behind : rest q ≡ drop (length p) (rest o)
