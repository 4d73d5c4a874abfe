-- The tally record as the rules' tally. Document 01, "The day sheet".
use Rattle.sheet_rules.specs.Tally.{Tally as Counts, tally_of}
use Rattle.tally.specs.declared.Tally.{Tally}

-- The counts of the record.
abbrev pub to_tally : Tally → Counts
to_tally tally = tally_of tally.accepted tally.refused tally.handed_back
