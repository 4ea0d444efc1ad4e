-- Document 01's layout is faithful: what it lays out is read back.
use Rattle.std.specs.Prelude.{◌≡◌, refl, List, [], ◌∷◌, ◌++◌, ℕ, ◌-◌, ◌*◌, ◌≤◌, length, replicate}
use Rattle.std.proofs.Common.{◌∙◌, append_assoc, arith, length-append, drop_at}
use Rattle.std.proofs.lemmas.List.{length-replicate}
use Rattle.std.proofs.Math.Seq.{take-append_seam}
use Rattle.configuration.specs.Configuration.{Line, line}
use Rattle.configuration.specs.LineLaws.{IsShort, configuration_parts, configuration_short}
use Rattle.memory.specs.declared.Entry.{Entry}
use Rattle.memory.specs.Memory.{entries_of, unused, IsFaithful}
use Rattle.memory.specs.OldLayout.{read_rows, rows_of, in_rows}

padded : (f : List ℕ) → length f ≤ 64 → length (f ++ replicate (64 - length f) 0) ≡ 64
padded f h = simp (length-append, length-replicate) (omega arith)

-- lines laid out and read back, whatever stands behind them
read_rows_lem : (L : List Line) (x : List ℕ) (y : List Entry) → IsShort L → read_rows (length L) (rows_of L ++ x) (entries_of L ++ y) ≡ L
unfolding read_rows rows_of entries_of
read_rows_lem [] x y s = refl
read_rows_lem (line f w ∷ L) x y s =
    let p : List ℕ = f ++ replicate (64 - length f) 0 in
    rw (append_assoc p (rows_of L) x, drop_at p (rows_of L ++ x) 64 (padded f s.0), read_rows_lem L x y s.1)
    (rw (append_assoc f (replicate (64 - length f) 0) (rows_of L ++ x), take-append_seam f (replicate (64 - length f) 0 ++ (rows_of L ++ x))))

length_rows : (L : List Line) → IsShort L → length (rows_of L) ≡ 64 * length L
unfolding rows_of
length_rows [] s = refl
length_rows (line f w ∷ L) s = length-append (f ++ replicate (64 - length f) 0) (rows_of L) ∙ omega (arith, padded f s.0, length_rows L s.1)

pub in_rows_lem : IsFaithful in_rows
in_rows_lem = record {
  room = λ n L h. let q = configuration_parts n L h in omega (arith, length_rows L (configuration_short q), q.room);
  back = λ n L h. read_rows_lem L (replicate (8192 - length (rows_of L)) 0) (replicate (128 - length L) unused) (configuration_short (configuration_parts n L h));
}
