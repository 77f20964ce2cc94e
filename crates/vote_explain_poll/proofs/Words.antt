-- The names that the proofs of this crate share.
pub use Rattle.std.proofs.Common.{Err, List, Ok, [], ap, append-nil, append_assoc, arith, codes, get_or, inr, length, refl, rules, string_bytes, subst, sym, take, true, ℕ, ◌++◌, ◌<◌, ◌==◌, ◌∙◌, ◌≡◌, ◌≤◌}
pub use Rattle.toml.specs.View.{members_view, table_view}
pub use Rattle.vote_poll_keys.specs.Keys.{all_keys, document, key_named}
pub use Rattle.vote_explain_poll.specs.Findings.{SaysFault, SaysKey, key_head}
pub use Rattle.vote_hints.specs.Hints.{Adding, AreLinesFor, hint_line}
pub use Rattle.vote_explain_poll.specs.UnreadKeys.{missing_names, path_of, table_holds_name, unread_in}

-- three texts were added, one after another
pub three : (a b c t0 t1 t2 t3 : List ℕ) → t1 ≡ t0 ++ a → t2 ≡ t1 ++ b → t3 ≡ t2 ++ c → t3 ≡ t0 ++ (a ++ b ++ c)
three a b c t0 t1 t2 t3 e1 e2 e3 = rw (e3, e2, e1) (simp append_assoc)
