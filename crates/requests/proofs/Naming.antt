-- A word that is spelled as the name of a ring is that name.
use Rattle.std.proofs.Common.{codes, ◌≡◌, ℕ, List, length, Some, ap, ◌∙◌, refl}
use Rattle.std.proofs.lemmas.Slice.Eq.{HasBytesAt, text_from_reads}
use Rattle.requests.specs.declared.request.RingName.{RingName}
use Rattle.requests.specs.declared.request.RingName.TheVariants.{Words, Residues, Octets, OctetsByShifts}
use Rattle.requests.specs.Format.{ring_named}
use Rattle.requests.specs.Written.{name_of}

ring_back : (r : RingName) → ring_named (name_of r) ≡ Some r
ring_back Words = refl
ring_back Residues = refl
ring_back Octets = refl
ring_back OctetsByShifts = refl

ring_read : (r : RingName) (w : List ℕ) → length w ≡ length (name_of r) → HasBytesAt w 0 (name_of r) → ring_named w ≡ Some r
ring_read r w e h = ap ring_named (text_from_reads w (name_of r) e h) ∙ ring_back r

-- each name by its length and its bytes; a tactic finds the shortest alone
pub residues_read : (w : List ℕ) → length w ≡ 8 → HasBytesAt w 0 (codes "residues") → ring_named w ≡ Some Residues
residues_read w e h = ring_read Residues w e h

pub octets_read : (w : List ℕ) → length w ≡ 6 → HasBytesAt w 0 (codes "octets") → ring_named w ≡ Some Octets
octets_read w e h = ring_read Octets w e h

pub shifts_read : (w : List ℕ) → length w ≡ 16 → HasBytesAt w 0 (codes "octets-by-shifts") → ring_named w ≡ Some OctetsByShifts
shifts_read w e h = ring_read OctetsByShifts w e h

pub ruleset rings_read = (residues_read, octets_read, shifts_read)
