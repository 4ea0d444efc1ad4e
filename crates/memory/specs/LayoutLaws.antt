-- Laws of every layout: a well-formed memory is the image of its own configuration, and an image of a configuration is well formed.
use Rattle.std.specs.Prelude.{◌≡◌, Bool, ◌&&◌, ℕ, suc, T, eqb, ℤ, pos, negsuc, length}
use Rattle.std.proofs.Math.Path.{refl, ap₂}
use Rattle.std.proofs.Common.{ap, subst, sym, arith, eqb→eq, length-append}
use mathlib.Core.List.{List, [], ◌∷◌}
use Rattle.std.proofs.Math.Dec.{eqb_refl}
use Rattle.std.proofs.lemmas.List.{length-replicate}
use Rattle.run.specs.BooleanLaws.{left, right, both, eq→eqb}
use Rattle.configuration.specs.Configuration.{Line, line, is_configuration}
use Rattle.configuration.specs.LineLaws.{IsConfiguration, configuration_parts}
use Rattle.memory.specs.declared.Entry.{Entry}
use Rattle.memory.specs.Memory.{Memory, Layout, entries_of, sized, alike, same_weight, same_entry, same_memory, standing_under, image_under, well_formed_under, IsFaithful}

-- ---- equality by a test
module _ {A : Type 0} (same : A → A → Bool) where
  alike_is : ((x y : A) → T (same x y) → x ≡ y) → (l m : List A) → T (alike same l m) → l ≡ m
  unfolding alike
  alike_is h [] [] t = refl
  alike_is h [] (y ∷ m) t = absurd t
  alike_is h (x ∷ l) [] t = absurd t
  alike_is h (x ∷ l) (y ∷ m) t =
      ap₂ (λ (z : A) (n : List A). z ∷ n) (h x y (left (same x y) (alike same l m) t)) (alike_is h l m (right (same x y) (alike same l m) t))

  alike_self : ((x : A) → T (same x x)) → (l : List A) → T (alike same l l)
  unfolding alike
  alike_self h [] = tt
  alike_self h (x ∷ l) = both (same x x) (alike same l l) (h x) (alike_self h l)

weight_is : (u w : ℤ) → T (same_weight u w) → u ≡ w
weight_is (pos m) (pos n) t = ap pos (eqb→eq m n t)
weight_is (pos m) (negsuc n) t = absurd t
weight_is (negsuc m) (pos n) t = absurd t
weight_is (negsuc m) (negsuc n) t = ap negsuc (eqb→eq m n t)

weight_self : (w : ℤ) → T (same_weight w w)
weight_self (pos n) = eqb_refl n
weight_self (negsuc n) = eqb_refl n

entry_is : (d e : Entry) → T (same_entry d e) → d ≡ e
entry_is d e t =
    let a : Bool = same_weight d.weight e.weight in
    let b : Bool = eqb d.count e.count in
    ap₂ (λ (w : ℤ) (n : ℕ). record { weight = w; count = n }) (weight_is d.weight e.weight (left a b t)) (eqb→eq d.count e.count (right a b t))

entry_self : (e : Entry) → T (same_entry e e)
entry_self e = both (same_weight e.weight e.weight) (eqb e.count e.count) (weight_self e.weight) (eqb_refl e.count)

memory_is : (m k : Memory) → T (same_memory m k) → m ≡ k
memory_is m k t =
    let a : Bool = eqb m.variables k.variables in
    let b : Bool = eqb m.lines k.lines in
    let c : Bool = alike eqb m.terms k.terms in
    let d : Bool = alike same_entry m.table k.table in
    let u : T (b && (c && d)) = right a (b && (c && d)) t in
    let v : T (c && d) = right b (c && d) u in
    let ev : m.variables ≡ k.variables = eqb→eq m.variables k.variables (left a (b && (c && d)) t) in
    let el : m.lines ≡ k.lines = eqb→eq m.lines k.lines (left b (c && d) u) in
    let et : m.terms ≡ k.terms = alike_is eqb eqb→eq m.terms k.terms (left c d v) in
    let ee : m.table ≡ k.table = alike_is same_entry entry_is m.table k.table (right c d v) in
    λ i. record { variables = ev i; lines = el i; terms = et i; table = ee i }

pub memory_self : (m : Memory) → T (same_memory m m)
memory_self m =
    let c : Bool = alike eqb m.terms m.terms in
    let d : Bool = alike same_entry m.table m.table in
    both (eqb m.variables m.variables) (eqb m.lines m.lines && (c && d)) (eqb_refl m.variables)
    (both (eqb m.lines m.lines) (c && d) (eqb_refl m.lines) (both c d (alike_self eqb eqb_refl m.terms) (alike_self same_entry entry_self m.table)))

-- ---- lengths of an image
pub length_entries : (L : List Line) → length (entries_of L) ≡ length L
unfolding entries_of
length_entries [] = refl
length_entries (line f w ∷ L) = ap suc (length_entries L)

-- ---- well formed
module _ (l : Layout) where
  module _ (m : Memory) (h : T (well_formed_under l m)) where
    abbrev L : List Line
    L = standing_under l m

    pub well_image : m ≡ image_under l m.variables L
    well_image = memory_is m (image_under l m.variables L) (right (is_configuration m.variables L) (same_memory m (image_under l m.variables L)) h)

    pub well_configuration : T (is_configuration m.variables L)
    well_configuration = left (is_configuration m.variables L) (same_memory m (image_under l m.variables L)) h

    pub well_parts : IsConfiguration m.variables L
    well_parts = configuration_parts m.variables L well_configuration

  module _ (q : IsFaithful l) where
    pub image_well : (n : ℕ) (N : List Line) → T (is_configuration n N) → T (well_formed_under l (image_under l n N))
    image_well n N h =
        rw (q.back n N h) (both (is_configuration n N) (same_memory (image_under l n N) (image_under l n N)) h (memory_self (image_under l n N)))

    image_sized : (n : ℕ) (N : List Line) → T (is_configuration n N) → T (sized (image_under l n N))
    image_sized n N h =
        let k : Memory = image_under l n N in
        let p : IsConfiguration n N = configuration_parts n N h in
        let a : length k.terms ≡ 8192 = simp (length-append, length-replicate) (omega (arith, q.room n N h)) in
        let b : length k.table ≡ 128 = simp (length-append, length-replicate) (omega (arith, length_entries N, p.room)) in
        both (eqb (length k.terms) 8192) (eqb (length k.table) 128) (eq→eqb (length k.terms) 8192 a) (eq→eqb (length k.table) 128 b)

    pub well_sized : (m : Memory) → T (well_formed_under l m) → T (sized m)
    well_sized m h = subst (λ (k : Memory). T (sized k)) (sym (well_image m h)) (image_sized m.variables (standing_under l m) (well_configuration m h))
