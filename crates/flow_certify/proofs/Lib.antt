mod OneNext
mod Shown
