-- A word that is spelled as a name is that name.
use Rattle.std.proofs.Common.{codes, ◌≡◌, ℕ, List, length, Some, ap, ◌∙◌, refl}
use Rattle.std.proofs.lemmas.Slice.Eq.{HasBytesAt, text_from_reads}
use Rattle.commands.specs.declared.command.FieldName.{FieldName}
use Rattle.commands.specs.declared.command.FieldName.TheVariants.{Residues, Octets, OctetsByShifts}
use Rattle.commands.specs.declared.keyword.Keyword.{Keyword}
use Rattle.commands.specs.declared.keyword.Keyword.TheVariants.{Field, Unknowns, Offer, Rank, Publish, Solution, Kernel, Symbol, Report}
use Rattle.commands.specs.Fields.{field_named}
use Rattle.commands.specs.Keywords.{keyword_named, keyword_text}
use Rattle.commands.specs.Written.{field_text}

pub named_back : (k : Keyword) → keyword_named (keyword_text k) ≡ Some k
named_back Field = refl
named_back Unknowns = refl
named_back Offer = refl
named_back Rank = refl
named_back Publish = refl
named_back Solution = refl
named_back Kernel = refl
named_back Symbol = refl
named_back Report = refl

field_back : (f : FieldName) → field_named (field_text f) ≡ Some f
field_back Residues = refl
field_back Octets = refl
field_back OctetsByShifts = refl

keyword_read : (k : Keyword) (w : List ℕ) → length w ≡ length (keyword_text k) → HasBytesAt w 0 (keyword_text k) → keyword_named w ≡ Some k
keyword_read k w e h = ap keyword_named (text_from_reads w (keyword_text k) e h) ∙ named_back k

field_read : (f : FieldName) (w : List ℕ) → length w ≡ length (field_text f) → HasBytesAt w 0 (field_text f) → field_named w ≡ Some f
field_read f w e h = ap field_named (text_from_reads w (field_text f) e h) ∙ field_back f

-- each name by its length and its bytes; a tactic finds the shorter ones alone
pub unknowns_read : (w : List ℕ) → length w ≡ 8 → HasBytesAt w 0 (codes "unknowns") → keyword_named w ≡ Some Unknowns
unknowns_read w e h = keyword_read Unknowns w e h

pub publish_read : (w : List ℕ) → length w ≡ 7 → HasBytesAt w 0 (codes "publish") → keyword_named w ≡ Some Publish
publish_read w e h = keyword_read Publish w e h

pub solution_read : (w : List ℕ) → length w ≡ 8 → HasBytesAt w 0 (codes "solution") → keyword_named w ≡ Some Solution
solution_read w e h = keyword_read Solution w e h

pub kernel_read : (w : List ℕ) → length w ≡ 6 → HasBytesAt w 0 (codes "kernel") → keyword_named w ≡ Some Kernel
kernel_read w e h = keyword_read Kernel w e h

pub symbol_read : (w : List ℕ) → length w ≡ 6 → HasBytesAt w 0 (codes "symbol") → keyword_named w ≡ Some Symbol
symbol_read w e h = keyword_read Symbol w e h

pub report_read : (w : List ℕ) → length w ≡ 6 → HasBytesAt w 0 (codes "report") → keyword_named w ≡ Some Report
report_read w e h = keyword_read Report w e h

pub ruleset keywords_read = (unknowns_read, publish_read, solution_read, kernel_read, symbol_read, report_read)

pub residues_read : (w : List ℕ) → length w ≡ 8 → HasBytesAt w 0 (codes "residues") → field_named w ≡ Some Residues
residues_read w e h = field_read Residues w e h

pub octets_read : (w : List ℕ) → length w ≡ 6 → HasBytesAt w 0 (codes "octets") → field_named w ≡ Some Octets
octets_read w e h = field_read Octets w e h

pub shifts_read : (w : List ℕ) → length w ≡ 16 → HasBytesAt w 0 (codes "octets-by-shifts") → field_named w ≡ Some OctetsByShifts
shifts_read w e h = field_read OctetsByShifts w e h

pub ruleset fields_read = (residues_read, octets_read, shifts_read)
