-- `put_terms` meets its contract.
use mathlib.Core.Path.{refl}
use mathlib.Core.List.{List, ◌++◌, map}
use Prim.Native.Nat.{ℕ, ◌+◌, ◌<◌}
use native.Mathlib.Omega.{arith}
use borrow.Author.Rules.{rules}
use lib.ListN.{drop, get_or}
use Rattle.listing.specs.Listing.{term_text, terms_text}
use Rattle.listing.specs.declared.text.Writer.{Writer}
use Rattle.listing.proofs.Chains.{Left, left_as, left_none, left_room, left_then, wrote_by}
use Rattle.listing.proofs.Names.{behind_term, first_term, later_term, plus, spread, terms_behind, terms_over}
use Rattle.listing.proofs.text.Writer.put_terms.Goals as goal
use Rattle.listing.proofs.text.Writer.put_terms.Goals.{In-loop-i, Joined-i-gt0, then-i-gt0, else-i-gt0}

abbrev term : goal.In-loop-i → List ℕ
term c = term_text (get_or c.args.f.now c.loop-i.i 0)

abbrev others : goal.In-loop-i → List ℕ
others c = behind_term c.args.f.now c.loop-i.i

-- of a text that is to stand behind what stands in a, what is left is still to be written
abbrev Parted : Writer → goal.In-loop-i → Writer → List ℕ → Type 0
Parted a c b rest = Left a (terms_text c.args.f.now) b rest

abbrev Begun : Writer → goal.In-loop-i → Type 0
Begun a c = Parted a c c.loop-i.terms (spread c.loop-i.i (map term_text (drop c.loop-i.i c.args.f.now)))

-- behind another term a plus sign and the term are
begun : {a : Writer} (c : goal.In-loop-i) → 0 < c.loop-i.i → Begun a c → Parted a c c.loop-i.terms (plus ++ (term c ++ others c))
begun c h s = left_as (plus ++ (term c ++ others c)) (later_term c.args.f.now c.loop-i.i (omega arith) h) s

-- the term is
parted : {a : Writer} (c : goal.Joined-i-gt0) → (let d = (goal.at.Joined-i-gt0 c).In-loop-i in Begun a d → Parted a d c.if-i-gt0.terms (term d ++ others d))
parted c s =
    let d = (goal.at.Joined-i-gt0 c).In-loop-i in
    elim c.if-i-gt0.branch [
      | then-i-gt0 w ↦ rw w.terms-is (left_then plus (term d ++ others d) (begun d w.if-i-gt0.true s) w.put_bytes.ensures)
      | else-i-gt0 w ↦ rw w.terms-is (left_as (term d ++ others d) (first_term c.args.f.now c.loop-i.i (omega arith) w.if-i-gt0.false) s)
    ]

pub put_bytes-requires : goal.put_bytes-requires
put_bytes-requires c = let d = (goal.at.put_bytes-requires c).In-loop-i in left_room plus (term d ++ others d) (begun d c.if-i-gt0.true c.loop-i.invariant)

pub put_term-requires : goal.put_term-requires
put_term-requires c =
    let d = (goal.at.put_term-requires c).In-loop-i in
    left_room (term d) (others d) (parted (goal.at.put_term-requires c).Joined-i-gt0 c.loop-i.invariant)

pub loop-i-preserved : goal.loop-i-preserved
loop-i-preserved c =
    let d = (goal.at.loop-i-preserved c).In-loop-i in
    left_as (spread (c.loop-i.i + 1) (map term_text (drop (c.loop-i.i + 1) c.args.f.now))) (terms_behind c.args.f.now c.loop-i.i)
    (left_then (term d) (others d) (parted (goal.at.loop-i-preserved c).Joined-i-gt0 c.loop-i.invariant) c.put_term.ensures)

pub returns : goal.returns
returns c =
    let l = c.loop-i in
    wrote_by refl refl refl (search rules) refl
    (left_none (spread l.i (map term_text (drop l.i c.args.f.now))) (terms_over c.args.f.now l.i (omega arith)) l.invariant)
