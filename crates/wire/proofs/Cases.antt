-- The marked cases hold by computation.
use mathlib.Core.Path.{refl}
use Rattle.wire.specs.Message.{in_range}
use Rattle.wire.specs.Bytes.{bytes_of, parsed}
use Rattle.wire.specs.Cases.{Cases}

pub cases : Cases
unfolding bytes_of parsed in_range
cases = record { p9_written = refl; p9_read = refl; p10_written = refl; p10_read = refl }
