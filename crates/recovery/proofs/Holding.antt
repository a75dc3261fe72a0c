-- The log that a table holds after each call.
use Rattle.std.proofs.Common.{◌≡◌, ℕ, zero, suc, ◌+◌, ◌-◌, ◌*◌, ◌<◌, ◌≢◌, List, [], ◌∷◌, ◌++◌, length, get_or, take, drop, set, replicate, Some, None, Ok, Err, sym, refl, ap, ◌∙◌, subst, arith, get_or-take, get_or-drop}
use Rattle.algebra.specs.Meaning.{Meaning}
use Rattle.logs.specs.declared.refusal.Refusal.{Refusal}
use Rattle.algebra.specs.Vectors.{entries, Sound}
use Rattle.linear.specs.Field.{FieldLaws}
use Rattle.linear.proofs.Codes.{zero_code, from_zero}
use Rattle.linear.proofs.Systems.{each_more, length_more}
use Rattle.linear.proofs.Tables.{tabled_none}
use Rattle.logs.specs.declared.answer.Answer.TheVariants.{Kept, Implied, Contradiction}
use Rattle.logs.specs.Logs.{Made, opened, offering, ranking}
use Rattle.logs.specs.Offers.{Offer, equation, checked, Log, offered, ranked, kept}
use Rattle.logs.proofs.Checking.{checked_sound}
use Rattle.logs.proofs.Histories.{made_sounds, made_tabled, possible_kept}
use Rattle.recovery.specs.declared.table.Table.{Table}
use Rattle.recovery.specs.Cells.{cell, taken_out, Extended, FirstNonzero, Divided}
use Rattle.recovery.specs.Tables.{Holds, Keeps}
use Rattle.recovery.proofs.Judging.{Row, Left, closed_builds, implied_value, missed_value, implied_all, missed_all}
use Rattle.recovery.proofs.Keeping.{kept_both, kept_room, kept_shows}
use Rattle.recovery.proofs.Reading.{slots_show}
use Rattle.recovery.proofs.Showing.{Shows, shown_slots}
use Rattle.recovery.proofs.Steps.{zeros_at}

zero_cells : (p j : ℕ) → cell (replicate 64 (replicate 129 0)) p j ≡ 0
zero_cells p j = go 64 p
  where
    go : (k p : ℕ) → entries (get_or {A = List ℕ} (replicate k (replicate 129 0)) p []) j ≡ 0
    go zero p = refl
    go (suc k) zero = zeros_at 129 j
    go (suc k) (suc p) = go k p

-- a new table
pub holds_opened : (m : Meaning) → FieldLaws m → (n : ℕ) (t : Table) → t.width ≡ n → t.count ≡ 0 → t.slots ≡ replicate 64 (replicate 129 0) → Holds m n [] t
unfolding tabled_none
holds_opened m laws n t w c z = record {
  width = w;
  made = opened;
  count = c;
  slots = shown_slots m laws n [] (tabled_none m laws n) t.slots shows (λ i l. absurd (omega arith));
}
  where
    all_zero : (p j : ℕ) → cell t.slots p j ≡ 0
    all_zero p j = ap (λ (r : List (List ℕ)). cell r p j) z ∙ zero_cells p j

    shows : Shows m laws n [] (tabled_none m laws n) t.slots
    shows = record {
      codes = λ p j lp lj. rw (all_zero p j) (zero_code m laws);
      rows = λ p j lp lj. from_zero m laws _ (all_zero p j);
      values = λ p lp. from_zero m laws _ (all_zero p n);
      weights = λ p i lp li. from_zero m laws _ (all_zero p (n + 1 + i));
    }

-- an offer that is refused changes nothing
pub holds_refused : (m : Meaning) (n : ℕ) (t : Table) (log : Log) (o : Offer) (x : Refusal) → checked m.order t.width o ≡ Err x
    → Holds m n log t → Holds m n (offered o (Err x) o.weights ∷ log) t
holds_refused m n t log o x e h = record {
  width = h.width;
  made = offering h.made (subst (λ k. checked m.order k o ≡ Err x) h.width e, refl);
  count = h.count;
  slots = h.slots;
}

-- the rank is the number of kept equations
pub holds_ranked : (m : Meaning) (n : ℕ) (t : Table) (log : Log) → Holds m n log t
    → (t.count ≡ length (kept log)) × Holds m n (ranked t.count ∷ log) t
holds_ranked m n t log h = (
  h.count,
  record {
    width = h.width;
    made = subst (λ r. Made m n (ranked r ∷ log)) (sym h.count) (ranking h.made);
    count = h.count;
    slots = h.slots;
  },
)

-- the front of a row of cells, which shows an equation on n unknowns with its value and n weights
abbrev pub front : ℕ → List ℕ → List ℕ
front n cells = take (2 * n + 1) cells

-- an offer that passes, and what is left of it when the slots are taken out
module _ (m : Meaning) (laws : FieldLaws m) (t : Table) (log : Log) (o : Offer) (h : Holds m t.width log t)
    (fine : checked m.order t.width o ≡ Ok tt) (cells left : List ℕ) (extended : Extended o.coefficients o.value cells)
    (full : length (front t.width cells) ≡ 2 * t.width + 1) (same : length left ≡ length (front t.width cells))
    (reduces : (k : ℕ) → k < length (front t.width cells)
    → entries left k
    ≡ taken_out m (entries o.coefficients) (λ p. cell t.slots p k) (entries (front t.width cells) k) (length o.coefficients)) where
  abbrev n : ℕ
  n = t.width

  abbrev md : Made m t.width log
  md = h.made

  sound : Sound m n (equation o)
  sound = (checked_sound m n o fine).0

  shows : Shows m laws n (kept log) (made_tabled m laws n md) t.slots
  shows = slots_show m laws n log md t.slots h.slots

  whole : List ℕ
  whole = front t.width cells

  whole_row : Row n (equation o) whole
  unfolding whole
  whole_row =
      let long = sound.coefficients.long in
      record {
        front = λ k l. get_or-take (2 * n + 1) cells k 0 (omega arith) ∙ extended.front k (omega arith);
        middle = get_or-take (2 * n + 1) cells n 0 (omega arith) ∙ ap (entries cells) (sym long) ∙ extended.middle;
        back = λ i l. get_or-take (2 * n + 1) cells (n + 1 + i) 0 (omega arith) ∙ extended.back (n + 1 + i) (omega arith);
      }

  reduced : (k : ℕ) → k < 2 * n + 1 → entries left k ≡ taken_out m (entries o.coefficients) (λ p. cell t.slots p k) (entries whole k) n
  unfolding whole
  reduced k l =
      reduces k (omega arith) ∙ ap (taken_out m (entries o.coefficients) (λ p. cell t.slots p k) (entries (front n cells) k)) sound.coefficients.long

  given : Left m laws n (kept log) (made_tabled m laws n md) t.slots (equation o) left
  given = record { shows = shows; sounds = made_sounds md; sound = sound; whole = whole; whole_row = whole_row; reduced = reduced }

  -- no coefficient is left
  module _ (none : FirstNonzero n left None) (ws : List ℕ) (many : length ws ≡ length o.weights)
      (written : (k : ℕ) → k < length o.weights → entries ws k ≡ m.negative (entries (take (length left - (n + 1)) (drop (n + 1) left)) k)) where
    long : length ws ≡ n
    long = many ∙ (checked_sound m n o fine).1

    negatives : (k : ℕ) → k < n → entries ws k ≡ m.negative (entries left (n + 1 + k))
    negatives k l =
        written k (omega (arith, (checked_sound m n o fine).1))
        ∙ ap m.negative (get_or-take (length left - (n + 1)) (drop (n + 1) left) k 0 (omega (arith, same, full)) ∙ get_or-drop (n + 1) left k 0)

    pub holds_implied : entries left t.width ≡ 0 → Holds m t.width (offered o (Ok Implied) ws ∷ log) t
    holds_implied v = record {
      width = refl;
      made = offering md (
        fine,
        (
          (λ x p. implied_all m laws n (kept log) (made_tabled m laws n md) t.slots (equation o) left given
              none ws long negatives v x ((possible_kept md x).0 p)),
          closed_builds m laws n (kept log) (made_tabled m laws n md) t.slots (equation o) left given
              none ws long negatives,
          implied_value m laws n (kept log) (made_tabled m laws n md) t.slots (equation o) left given
              none ws long negatives v,
        ),
      );
      count = h.count;
      slots = h.slots;
    }

    pub holds_contradicted : entries left t.width ≢ 0 → Holds m t.width (offered o (Ok Contradiction) ws ∷ log) t
    holds_contradicted v = record {
      width = refl;
      made = offering md (
        fine,
        (
          (λ x p. missed_all m laws n (kept log) (made_tabled m laws n md) t.slots (equation o) left given
              none ws long negatives v x ((possible_kept md x).0 p)),
          closed_builds m laws n (kept log) (made_tabled m laws n md) t.slots (equation o) left given
              none ws long negatives,
          missed_value m laws n (kept log) (made_tabled m laws n md) t.slots (equation o) left given
              none ws long negatives v,
        ),
      );
      count = h.count;
      slots = h.slots;
    }

  -- column q is the first that is left
  module _ (q : ℕ) (first : FirstNonzero n left (Some q)) where
    pub holds_room : t.count < t.width
    holds_room =
        let r = kept_room m laws n (kept log) (made_tabled m laws n md) t.slots (equation o) left given
        q first.0 first.1 first.2 in
        let c = h.count in
        omega arith

    pub holds_kept : (divided : List ℕ) → length divided ≡ length left → (after : Table)
        → Keeps m q left divided t after → (ws : List ℕ) → ws ≡ replicate (length o.weights) 0
        → Holds m t.width (offered o (Ok (Kept t.count)) ws ∷ log) after
    holds_kept divided long after k ws zeros =
        let both = kept_both m laws n (kept log) (made_tabled m laws n md) t.slots (equation o) left given
        q first.0 first.1 first.2 in
        record {
          width = k.width;
          made = offering md (
            fine,
            (
              h.count,
              zeros ∙ ap (λ k. replicate k 0) (checked_sound m n o fine).1,
              (both.0.0, (possible_kept md both.0.0).1 both.0.1, both.0.2),
              (both.1.0, (possible_kept md both.1.0).1 both.1.1, both.1.2),
            ),
          );
          count = let c = h.count in let l = length_more (kept log) (equation o) in let d = k.count in omega arith;
          slots =
              shown_slots m laws n (kept log ++ (equation o ∷ [])) _ after.slots
              (kept_shows m laws n (kept log) (made_tabled m laws n md) t.slots (equation o) left given
              q first.0 first.1 first.2 (same ∙ full) divided long after.slots
              (subst (λ c. Divided m q (set left (n + 1 + c) 1) divided) h.count k.divides) k.places)
              (each_more (Sound m n) (kept log) (equation o) (made_sounds md) sound);
        }
