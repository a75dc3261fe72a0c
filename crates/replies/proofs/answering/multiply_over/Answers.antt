-- The reply is that over the ring of the name.
use Rattle.replies.proofs.answering.multiply_over.Goals as goal

pub returns-in-Words : goal.returns-in-Words
returns-in-Words c = rw c.in-Words.is c.multiply.ensures

pub returns-in-Residues : goal.returns-in-Residues
returns-in-Residues c = rw c.in-Residues.is c.multiply-in-Residues.ensures

pub returns-in-Octets : goal.returns-in-Octets
returns-in-Octets c = rw c.in-Octets.is c.multiply-in-Octets.ensures

pub returns-in-OctetsByShifts : goal.returns-in-OctetsByShifts
returns-in-OctetsByShifts c = rw c.in-OctetsByShifts.is c.multiply-in-OctetsByShifts.ensures
