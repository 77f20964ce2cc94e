-- The names that the proofs of this crate share.
pub use Rattle.std.proofs.Common.{Bool, Bor, List, None, Option, Some, [], add-one, ap, append-nil, append_assoc, ap₂, arith, codes, decimal, drop, false, filter, get_or, inl, inr, length, map, min, nat_le, not, refl, rules, slice_get, string_bytes, subst, suc, sym}
pub use Rattle.std.proofs.Common.{take, take-append-drop, take_all, true, zero, ℕ, ◌&&◌, ◌++◌, ◌+◌, ◌-◌, ◌<◌, ◌==◌, ◌||◌, ◌∙◌, ◌∷◌, ◌≡◌, ◌≤◌}
pub use Rattle.std.specs.List.{All, Contains, after_first, before_first, enumerate_from, flat_map, list_all, list_any, onto_first, position_or_len, slice_split}
pub use Rattle.std.specs.Prelude.{cond, is_some, option_and_then, ◌↔◌}
pub use Rattle.std.proofs.lemmas.Bool.Decides.{nat_tests}
pub use Rattle.std.proofs.lemmas.Grind.{common_steps}
pub use Rattle.std.proofs.lemmas.Int.{clamps}
pub use Rattle.std.proofs.lemmas.List.{drop_all, drop_more, flat_map_more, take-append-le, take-take, take_more}
pub use Rattle.std.proofs.lemmas.List.Elements.{All-map, All-nil, All-push, All-weaker}
pub use Rattle.std.proofs.lemmas.List.Folds.{flat_map-map}
pub use Rattle.std.proofs.lemmas.List.FromFn.{get_or-enumerate_from, length-enumerate_from}
pub use Rattle.std.proofs.lemmas.Option.{get_or_from_slice_get, gets, slice_get_within}
pub use Rattle.vote_poll_text.specs.Names.{is_voter_byte, is_within}
pub use Rattle.vote_poll_text.specs.Shown.{shown}
pub use Rattle.vote_poll.specs.PollContent.{PollContent, last_in_time}
pub use Rattle.vote_poll.specs.Readings.{IsReading, ballot_in, is_ballot, is_space, rank_in, reading, reading_of, readings}
pub use Rattle.vote_poll.specs.declared.reading.Reading.{Reading}
pub use Rattle.vote_steps.specs.History.{before_close, is_closed, reply_to}
pub use Rattle.vote_poll_text.specs.Texts.{Text}
pub use Rattle.vote_hints.specs.Hints.{Adding, AreLinesFor}
pub use Rattle.vote_explain_ballots.specs.Explained.{SaysRefusal, question, stranger_words}
pub use Rattle.vote_hints.specs.Near.{IsNearest}
pub use Rattle.vote_explain_ballots.specs.Places.{IsColumn, IsExit, IsLinePrefix, IsPartAfter, has_byte, may_end, next_part}
pub use Rattle.vote_explain_ballots.specs.Refusals.{EachRefusalIsListed, Refusal, RefusedAsBySteps, refusal_by, refusal_of, refusals, refusing, refusing_at, refusing_reply}
pub use Rattle.vote_explain_ballots.specs.Tables.{is_even, is_head, is_of_ranks}
pub use Rattle.vote_explain_ballots.specs.Remarks.{IsRemark, is_title}

-- the line at a place, and those behind it
pub ruleset places = (drop_more, drop_all, gets, nat_tests)
