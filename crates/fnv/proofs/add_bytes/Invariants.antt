-- The bytes that are left, added to the sum, give the code of all bytes.
use Rattle.std.proofs.Common.{◌≡◌, drop}
use Rattle.fnv.specs.Fnv.{add_bytes}
use Rattle.fnv.proofs.add_bytes.Given as goal

abbrev pub invariant-loop-byte : goal.invariant-loop-byte
invariant-loop-byte l = add_bytes l.sum (drop l.byte-index l.bytes) ≡ add_bytes l.code l.bytes
