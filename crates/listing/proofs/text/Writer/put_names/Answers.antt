-- `put_names` meets its contract.
use mathlib.Core.Bool.{false}
use mathlib.Core.List.{List, ◌++◌}
use Prim.Native.Nat.{ℕ, ◌+◌, ◌-◌, ◌/◌, ◌^◌}
use native.Mathlib.Omega.{arith}
use lib.Count.{count_trailing_zeros}
use Rattle.listing.specs.Listing.{name_text, names_from, names_text}
use Rattle.listing.specs.Writing.{starred}
use Rattle.listing.proofs.Chains.{Left, left_as, left_none, left_room, left_then}
use Rattle.listing.proofs.Names.{There, name_there, names, names_over}
use Rattle.listing.proofs.text.Writer.put_names.Goals as goal
use Rattle.listing.proofs.text.Writer.put_names.Goals.{In-loop-rest}

-- the next variable, and what is left of the mask behind it
abbrev number : goal.In-loop-rest → ℕ
number c = c.loop-rest.i + (count_trailing_zeros 32 c.loop-rest.rest + 1)

abbrev name : goal.In-loop-rest → List ℕ
name c = starred c.loop-rest.first (name_text (number c))

abbrev others : goal.In-loop-rest → List ℕ
others c = names false (names_from (32 - number c) (number c + 1) (c.loop-rest.rest / 2 ^ count_trailing_zeros 32 c.loop-rest.rest / 2))

there : (c : goal.In-loop-rest) → There c.loop-rest.i c.loop-rest.rest c.loop-rest.first (number c) (c.loop-rest.rest / 2 ^ count_trailing_zeros 32 c.loop-rest.rest / 2)
there c =
    let l = c.loop-rest in
    name_there l.i l.rest l.first l.invariant.within l.invariant.small c.loop-rest-test.true

-- its name is still to be written
begun : (c : goal.In-loop-rest) → Left c.args.self.now (names_text c.args.mask) c.loop-rest.self (name c ++ others c)
begun c = left_as (name c ++ others c) (there c).text c.loop-rest.invariant.left

pub put_name-requires : goal.put_name-requires
put_name-requires c =
    let d = (goal.at.put_name-requires c).In-loop-rest in
    record { digits = omega (arith, (there d).within); room = left_room (name d) (others d) (begun d) }

pub loop-rest-preserved : goal.loop-rest-preserved
loop-rest-preserved c =
    let d = (goal.at.loop-rest-preserved c).In-loop-rest in
    record { within = (there d).within; small = (there d).small; left = left_then (name d) (others d) (begun d) c.put_name.ensures }

pub returns : goal.returns
returns c =
    let l = c.loop-rest in
    left_none (names l.first (names_from (32 - l.i) (l.i + 1) l.rest)) (names_over l.first (32 - l.i) (l.i + 1) l.rest c.loop-rest-test.false) l.invariant.left
