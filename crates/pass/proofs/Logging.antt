-- The log of recorded events, as calls are made.
use Rattle.std.proofs.Common.{◌≡◌, ℕ, true, List, [], ◌∷◌, ◌++◌, map, reverse, sym, ap, ◌∙◌, subst}
use Rattle.std.proofs.lemmas.List.{append-nil, map_push, reverse-append}
use Rattle.algebra.specs.Meaning.{Meaning}
use Rattle.linear.specs.Field.{FieldLaws}
use Rattle.logs.proofs.Keeping.{promised}
use Rattle.recovery.specs.declared.table.Table.{Table}
use Rattle.recovery.specs.Tables.{Holds}
use Rattle.recovery.specs.Widths.{is_width}
use Rattle.pass.specs.declared.recording.Call.{Call}
use Rattle.pass.specs.declared.recording.Event.{Event}
use Rattle.pass.specs.Recordings.{asked, asked_by, asked_in, logged, log_of, Makes, MakesAll, Recorded}

-- the newest event stands first
log_push : (es : List Event) (e : Event) → log_of (es ++ (e ∷ [])) ≡ logged e ∷ log_of es
log_push es e = ap reverse (map_push logged es e) ∙ reverse-append (map logged es) (logged e ∷ [])

-- one call more
pub more_made : (m : Meaning) (calls : List Call) (call : Call) (t u v : Table) (es new : List Event) (e : Event)
    → MakesAll m calls t u es → Makes m (asked call) u v e → new ≡ es ++ (e ∷ []) → MakesAll m (calls ++ (call ∷ [])) t v new
more_made m calls call t u v es new e all one is = record {
  asks =
      ap asked_in pushed ∙ ap (λ xs. xs ++ (asked_by (logged e) ∷ [])) all.asks
      ∙ ap (λ x. map asked calls ++ (x ∷ [])) one.asks ∙ sym (map_push asked calls call);
  adds = λ n log h. subst (λ l. Holds m n (l ++ log) v) (sym pushed) (one.adds n (log_of es ++ log) (all.adds n log h));
}
  where
    pushed : log_of new ≡ logged e ∷ log_of es
    pushed = ap log_of is ∙ log_push es e

-- calls made on a fresh collection
pub all_recorded : (m : Meaning) → FieldLaws m → (n : ℕ) (calls : List Call) (t u : Table) (es : List Event)
    → is_width n ≡ true → Holds m n [] t → MakesAll m calls t u es → Recorded m n calls es u
all_recorded m laws n calls t u es wide fresh all = record {
  width = wide;
  asks = all.asks;
  holds = held;
  promises = promised m laws n (log_of es) held.made;
}
  where
    held : Holds m n (log_of es) u
    held = subst (λ l. Holds m n l u) (append-nil (log_of es)) (all.adds n [] fresh)
