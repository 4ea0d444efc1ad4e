-- `put_names` meets its contract. The invariant: the names that are left, written behind what stands, are the whole.
use Prim.Native.Nat.{◌+◌, ◌-◌, ◌^◌, ◌≤◌, ◌<◌}
use Rattle.listing.specs.Listing.{names_from, names_text}
use Rattle.listing.proofs.Chains.{Left}
use Rattle.listing.proofs.Names.{names}
use Rattle.listing.proofs.text.Writer.put_names.Given as goal

abbrev pub invariant-loop-rest : goal.invariant-loop-rest
invariant-loop-rest l =
    record {
      within : l.i ≤ 32;
      small : l.rest < 2 ^ (32 - l.i);
      left : Left l.initial.self (names_text l.mask) l.self (names l.first (names_from (32 - l.i) (l.i + 1) l.rest));
    }

abbrev pub decreases-loop-rest : goal.decreases-loop-rest
decreases-loop-rest l = 32 - l.i
