-- What a call does to the words of the places. Assumes nothing.
use Rattle.std.specs.Prelude.{◌≡◌, true, false, List, ℕ, ◌<◌, length, drop, replicate}
use Rattle.model.specs.Limits.{scratch_least, jobs_most, job_words_least}
use Rattle.model.specs.Dispatcher.{Job, place_words}
use Rattle.queue.specs.Bridge.{PlacesOf, is_free_in}

-- the words of the places that no job is in are zero, and all others as they were
pub record FreeCleared (js : List Job) (words exit : List ℕ) : Type 0 where
  pub kept : length exit ≡ length words
  pub rest : drop job_words_least exit ≡ drop job_words_least words
  pub free : (p : ℕ) → p < jobs_most → is_free_in js p ≡ true → place_words p exit ≡ replicate scratch_least 0
  pub held : (p : ℕ) → p < jobs_most → is_free_in js p ≡ false → place_words p exit ≡ place_words p words

-- so they are, where bit p of the word stands for the jobs in place p
pub record ClearedBut (taken : ℕ) (words exit : List ℕ) : Type 0 where
  pub cleared : (js : List Job) → PlacesOf js taken → FreeCleared js words exit

-- the words of one place are these, and all others as they were
pub record Put (place : ℕ) (part words exit : List ℕ) : Type 0 where
  pub kept : length exit ≡ length words
  pub rest : drop job_words_least exit ≡ drop job_words_least words
  pub here : place_words place exit ≡ part
  pub others : (p : ℕ) → p < jobs_most → (p ≡ place → ⊥) → place_words p exit ≡ place_words p words
