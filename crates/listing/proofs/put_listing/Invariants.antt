-- `put_listing` meets its contract. The invariant: the texts from the number on, written behind what stands, are the whole listing.
use Prim.Native.Nat.{suc, ◌+◌, ◌-◌, ◌*◌, ◌≤◌}
use Rattle.listing.specs.Listing.{listing_of}
use Rattle.listing.specs.ListingLaws.{texts_from}
use Rattle.listing.proofs.Chains.{Left}
use Rattle.listing.proofs.put_listing.Given as goal

abbrev pub invariant-loop-number : goal.invariant-loop-number
invariant-loop-number l =
    record {
      room : l.writer.at ≤ l.initial.writer.at + l.number * 8448;
      left : Left l.initial.writer (listing_of l.variables l.hard l.lines) l.writer (texts_from (suc l.last - l.number) l.number l.variables l.hard l.lines);
    }
